pub mod FedDisks
pub mod FedStores
