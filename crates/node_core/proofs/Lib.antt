mod Answering
mod Barred
