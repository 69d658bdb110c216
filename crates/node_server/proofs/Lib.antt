mod Outcomes
mod Receipts
