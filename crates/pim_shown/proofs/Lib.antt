mod Addresses
mod Causes
mod Elected
