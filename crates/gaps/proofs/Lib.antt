mod First
mod Gaps
mod Exact
mod Linked
