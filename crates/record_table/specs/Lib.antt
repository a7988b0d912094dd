-- What the table's searches find, the check of a table in parts, and records that are entered one after another.
pub mod Slots
pub mod Checks
pub mod Partition
pub mod Leads
