-- The commands, a line for each.
use Rattle.std.specs.Prelude.{ℕ, List, ◌++◌, codes}

-- the lines of `help`
abbrev pub help_text : List ℕ
help_text =
    codes "help         lists the commands\n"
    ++ (codes "where        shows the position\n"
    ++ (codes "goto K       goes to step K\n"
    ++ (codes "forward [N]  goes N steps forward, or 1\n"
    ++ (codes "back [N]     goes N steps back, or 1\n"
    ++ (codes "step H       goes behind the next choice of hart H\n"
    ++ (codes "break A      sets a breakpoint at the address A\n"
    ++ (codes "watch A      watches the word that holds A for changes\n"
    ++ (codes "rwatch A     watches it for reads\n"
    ++ (codes "awatch A     watches it for reads and writes\n"
    ++ (codes "delete A     removes the breakpoint and the watches at the address A\n"
    ++ (codes "go           goes to the next breakpoint or watch, or to the end\n"
    ++ (codes "rgo          goes back to the last one, or to the start\n"
    ++ (codes "steps A B    shows the choices from A to B - 1\n"
    ++ (codes "list [H]     shows the instructions around the next one of hart H, or of the next choice\n"
    ++ (codes "regs H       shows the state and the registers of hart H\n"
    ++ (codes "regs H R..   shows these registers of hart H alone, as regs 0 a0 pc\n"
    ++ (codes "mem A N      shows N words of memory from the one that holds A on\n"
    ++ (codes "quit         ends\n"))))))))))))))))))
