mod Deciding
mod ForkLemmas
mod Netlists
mod OneFinding
mod SystemFaults
mod Tellings
