mod BufferLemmas
mod DigitLemmas
mod ListingLemmas
mod NameLemmas
mod SegmentLemmas
