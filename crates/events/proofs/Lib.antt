mod Digits
mod Rising
