use Rattle.dl_ring.proofs.push.RingPush.split.Given as goal

abbrev pub ghosts-new_pass : goal.ghosts-new_pass
ghosts-new_pass a = record { number = a.number }
