-- Worked examples: an input, and what is wanted by the rules. tests/vectors has more, for the program.
mod Computes
mod Documents
mod Views
mod Grammar
