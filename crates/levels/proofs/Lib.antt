mod Apart
mod Bits
mod Growth
mod Homes
mod Padding
mod SameKeys
