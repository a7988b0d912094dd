-- Laws of the scans and of the upkeep.
pub mod ScanLaws
pub mod UpkeepLaws
pub mod TouchLaws
pub mod BuildLaws
