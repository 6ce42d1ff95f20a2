pub mod Trailing
pub mod JoinedByte
pub mod AtHand
pub mod Kept
pub mod Heading
pub mod Zeros
