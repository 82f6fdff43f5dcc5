mod Deeds
mod Holding
mod Feeding
mod Copied
mod Outgoing
mod Fresh
