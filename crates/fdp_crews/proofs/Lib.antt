mod Closing
mod Hired
mod Left
mod Lists
mod Served
mod Shifting
