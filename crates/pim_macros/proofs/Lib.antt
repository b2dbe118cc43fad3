mod Asserted
mod ConfiguredMembers
mod Emptiness
mod NextInterface
mod OtherRp
mod Short
mod SightsKept
