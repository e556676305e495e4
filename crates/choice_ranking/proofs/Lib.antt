pub mod PlaceLoops
