mod Gets
mod Memos
mod Tests
mod Reading
mod Joins
mod Nullables
mod Going
mod Building
