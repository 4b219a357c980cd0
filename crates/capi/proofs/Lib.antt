mod Numbers
mod BrokenNumbers
mod Listed
