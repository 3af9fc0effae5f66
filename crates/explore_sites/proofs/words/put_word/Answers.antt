use Rattle.explore_sites.proofs.words.put_word.Goals as goal

pub returns-then-is_same_word-clause-canonical : goal.returns-then-is_same_word-clause-canonical
returns-then-is_same_word-clause-canonical g c = c.remove_at.ensures.canonical c.args.image.now
