pub mod Decoding
pub mod DecodingParts
pub mod DecodeLaws
pub mod FoundDecoding
pub mod DecodedSlots
