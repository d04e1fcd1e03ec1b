use Rattle.board_types.proofs.image.Image.iter.Goals as goal

pub returns-clause-found : goal.returns-clause-found
returns-clause-found c = rw (← c.self.view_is) c.iter.ensures.found
