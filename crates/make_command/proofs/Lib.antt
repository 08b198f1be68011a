mod Clocks
mod EndMarks
mod Shown
mod Blank
mod RightRuns
