pub mod Tables
pub mod PortTables
