mod Fronts
mod TextLemmas
