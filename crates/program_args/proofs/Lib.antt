mod Addresses
mod ChoiceWords
mod EachWord
mod NodeWords
