pub mod Armed
pub mod Dues
pub mod Ends
pub mod Heap
pub mod Next
pub mod Order
pub mod Schedule
