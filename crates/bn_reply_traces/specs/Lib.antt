pub mod Extents
pub mod MomentText
pub mod TraceReply
pub mod Stages
pub mod ConfigurationText
pub mod MomentsReply
pub mod QuadStages
pub mod Laws
