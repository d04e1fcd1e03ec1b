pub mod LeavesLength
pub mod LeavesValues
pub mod LeavesSizes
pub mod LeavesBytes
