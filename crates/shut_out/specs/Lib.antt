pub mod ShutOut
