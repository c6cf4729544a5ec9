mod Accepting
mod Along
mod Completing
mod Ending
mod OneMore
mod Verdicts
