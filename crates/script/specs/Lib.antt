-- records: what their bytes say, and the table of their kinds
pub mod Record
pub mod Forms
-- lines: words and digits, and how a line is made of them
pub mod Words
pub mod Lines
-- what one record comes to
pub mod Reply
-- what a whole script prints, and what playing a piece of one comes to
pub mod Script
pub mod Play
-- what a program does between two reads
pub mod Feed
-- what the functions promise that answer records
pub mod Put
pub mod Promise
-- what is claimed of scripts and their pieces, and the example of the Sunday script
pub mod Claims
pub mod Example
