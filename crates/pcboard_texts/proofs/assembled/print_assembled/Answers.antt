use Rattle.pcboard_texts.proofs.assembled.print_assembled.Goals as goal
