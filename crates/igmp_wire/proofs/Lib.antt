pub mod CodeLaws
pub mod AddressLaws
pub mod RecordLaws
pub mod ReadingLaws
pub mod WritingLaws
pub mod RoundTrip
