pub mod Bus
pub mod PortWriteBus
pub mod BusPromises
pub mod Guards
