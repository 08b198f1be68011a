mod Lists
mod AskLemmas
mod FlagLemmas
mod ListedLemmas
mod JobLemmas
