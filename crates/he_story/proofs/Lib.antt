mod Pauses
