mod AnswersRead
mod Bodies
mod Ids
mod PlainTexts
mod ReadBack
mod Routes
mod Sent
mod WrongBodies
