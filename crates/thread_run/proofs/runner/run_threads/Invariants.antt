use Rattle.thread_run.proofs.runner.run_threads.Given as goal

abbrev pub ghosts-run_book-T-Ledger : goal.ghosts-run_book-T-Ledger
ghosts-run_book-T-Ledger g a = record { name = a.blank.name; parts = a.blank.parts }

abbrev pub ghosts-run_book-T-Terms : goal.ghosts-run_book-T-Terms
ghosts-run_book-T-Terms g a = record { image = a.book.image; inputs = a.book.inputs; budget = a.limits.budget; total = a.limits.total; plan = a.plan.keys }
