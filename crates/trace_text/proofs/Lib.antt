mod ReadBackLemmas
mod HeadLemmas
mod TableLemmas
