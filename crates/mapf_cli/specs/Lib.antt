pub mod CheckRun
