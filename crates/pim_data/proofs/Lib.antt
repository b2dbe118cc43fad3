mod Few
mod Lists
