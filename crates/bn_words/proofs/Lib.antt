pub mod Numbers
pub mod FormLemmas
pub mod DecideLemmas
pub mod NoFormLemmas
