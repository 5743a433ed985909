-- Text in a lent run of bytes: numbers spelled out, and a text put at a place.
pub mod Text
