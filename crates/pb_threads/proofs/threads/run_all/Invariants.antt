use Rattle.pb_threads.proofs.threads.run_all.Given as goal

abbrev pub ghosts-run_known-KC-Roster : goal.ghosts-run_known-KC-Roster
ghosts-run_known-KC-Roster g a = record { places = a.places.customers.items; gives = g.G.Gate.gives a.gate.now }

abbrev pub ghosts-run_known-KL-Roster : goal.ghosts-run_known-KL-Roster
ghosts-run_known-KL-Roster g a = record { places = a.places.lanes.items; gives = g.G.Gate.gives a.gate.now }

abbrev pub ghosts-run_known-KB-Roster : goal.ghosts-run_known-KB-Roster
ghosts-run_known-KB-Roster g a = record { places = a.places.bridges.items; gives = g.G.Gate.gives a.gate.now }
