pub mod Banks
pub mod BankWires
pub mod BankNets
pub mod Laws
