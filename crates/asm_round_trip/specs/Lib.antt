pub mod TextAlone
