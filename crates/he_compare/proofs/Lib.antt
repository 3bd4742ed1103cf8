mod Forms
mod Grouped
mod Summed
mod Tables
