mod Asking
mod Sheeting
mod Looking
mod Testing
