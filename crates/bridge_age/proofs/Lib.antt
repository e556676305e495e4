pub mod Young
