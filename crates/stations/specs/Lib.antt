pub mod Stations
pub mod NineStations
