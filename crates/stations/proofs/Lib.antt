pub mod StationLaws
pub mod NineStations
