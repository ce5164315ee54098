mod Blank
