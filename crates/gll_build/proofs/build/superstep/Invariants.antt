use Rattle.gll_build.proofs.build.superstep.Given as goal

-- the build of this graph under this ranking
abbrev pub ghosts-steps : goal.ghosts-steps
ghosts-steps g a = record { edges = a.job.now.graph.now.edges; order = a.job.now.ranking.now; shift = a.plan.shift; workers = a.job.now.workers; claims = a.claims.now; goal = a.goal }
