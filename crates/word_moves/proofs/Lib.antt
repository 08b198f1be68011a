mod Evaluated
mod Moved
mod Targets
mod Traced
mod Wide
