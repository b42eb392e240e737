mod Pushed
mod Verdicts
