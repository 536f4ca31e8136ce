mod Ascending
mod Noting
