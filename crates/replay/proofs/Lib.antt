mod Hosts
mod Counting
mod Totals
mod Numbers
mod Owing
mod TwoTexts
mod Ends
