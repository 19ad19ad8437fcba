-- The class's number falls. Assumes nothing.
use Rattle.field.proofs.+runtime_words.Given as goal

abbrev pub decreases-runtime_words : goal.decreases-runtime_words
decreases-runtime_words l = l.c
